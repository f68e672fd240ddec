mod Connecting
